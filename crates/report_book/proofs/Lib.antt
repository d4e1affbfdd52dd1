mod Amounts
mod Keeping
mod Rows
