-- What the steps of the sort ask and leave.
--   `Hop`    what each element is
--   `Heap`   a heap in a list, for any order, and what a step of heap sort leaves
--   `Quick`  a run, for any order, and what a step of quick sort leaves
pub mod Hop
pub mod Heap
pub mod Quick
