-- Quoted text, the text of the program `profile`, how its writers go about it, the line that the program `drive` prints for a fix, and the printed page.
pub mod Codes
pub mod Text
pub mod Appended
pub mod Drive
pub mod Page
