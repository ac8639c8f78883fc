pub mod GrammarTrees
