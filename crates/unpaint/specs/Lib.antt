-- Nothing here is for a reader to believe: the contract of `unpaint` cites `tables`. `inner` serves its loops and inner functions.
pub mod inner
