mod Accesses
mod OtherPages
mod Stores
mod Words
