pub mod Trie
pub mod private
