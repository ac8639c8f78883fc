pub mod locals_lemmas
