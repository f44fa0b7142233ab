pub mod SplitPages
