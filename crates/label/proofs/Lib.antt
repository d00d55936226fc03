pub mod Apart
pub mod Digits
pub mod Doors
pub mod Printed
pub mod Shifts
pub mod Values
