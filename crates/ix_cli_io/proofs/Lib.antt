mod Failures
mod Inputs
mod Paths
mod Rules
