mod Appended
mod Rows
mod Tabs
