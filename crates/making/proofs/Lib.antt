-- What the making of a table tells, by its cases.
mod Told
