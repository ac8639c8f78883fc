-- A block from its statements and its last comments.
use Rattle.std.specs.Prelude.{ℕ, List}
use Rattle.jav_tree.specs.declared.stmt.Block.{Block}
use Rattle.jav_tree.specs.declared.stmt.Stmt.{Stmt}
use Rattle.jav_tree.specs.declared.stmt.Else.TheViews.{roll-Block}

abbrev pub block_of : List Stmt → List (List ℕ) → Block
block_of items tail = roll-Block (record { items = items; tail = tail })
