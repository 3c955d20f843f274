mod Places
mod WorkedBytes
