mod Digits
mod Items
mod Lacking
mod PlacedEntries
mod Places
mod Reasoning
mod Showing
