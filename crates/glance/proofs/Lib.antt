-- What is proved of `glance`.
mod Firsts
