-- Laws of the program's loop: pieces of the input, one after another.
mod Running
