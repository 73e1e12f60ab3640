-- Laws of the tests' exports
pub mod ProbeLaws
