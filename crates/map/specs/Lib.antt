-- Where places lie on the page.
pub mod Page
