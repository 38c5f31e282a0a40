mod Copying
mod Gathering
mod Listing
mod Paging
mod Splicing
