pub mod Apply
