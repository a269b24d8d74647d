mod Agreement
mod Sides
mod Rows
