pub mod BegunLowest
