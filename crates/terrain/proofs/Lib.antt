-- Laws of the calls on words: what a refused call leaves, and the parts over an engine's words.
pub mod KeepLaws
pub mod PartLaws
pub mod HostLaws
