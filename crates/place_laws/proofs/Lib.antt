pub mod RoomLemmas
pub mod SeatingLemmas
pub mod ListingLemmas
pub mod TrackLemmas
pub mod PlacingLemmas
