pub mod PageStores
pub mod Paging
