pub mod Lessons
