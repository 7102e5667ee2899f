mod Causes
mod Sharing
