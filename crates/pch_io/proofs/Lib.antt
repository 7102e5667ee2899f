pub mod FilesLemmas
