mod Resting
mod Tables
mod Adding
mod Listing
mod Visits
mod Readings
