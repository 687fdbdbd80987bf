pub mod Element
