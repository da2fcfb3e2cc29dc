-- The words of octets, and what booking flows answers and leaves; in `inner`, what serves the loop over many answers.
--   `Words`     how many words there are, and how far one may go
--   `Booking`   clear, and book one flow
--   `Many`      book many flows in one call
--   `Bookings`  every history of bookings, and what its words are to hold
pub mod Words
pub mod Booking
pub mod Many
pub mod Bookings
pub mod inner
