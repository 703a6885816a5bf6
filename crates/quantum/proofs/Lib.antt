mod Conditional
mod Ready
mod RowsThere
mod SameTask
mod Turned
