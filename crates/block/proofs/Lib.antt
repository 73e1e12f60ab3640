-- Laws of numbers put into a block
pub mod PutLaws
