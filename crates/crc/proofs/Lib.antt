-- Laws of the division and of the register, that a word may be added further on (Words), that the remainder is the only one, and the table's rule.
pub mod Table
pub mod Laws
pub mod Words
pub mod Euclid
pub mod Rule
pub mod Below
