-- The words with which statements and parts of them begin.
use Rattle.std.specs.Prelude.{ℕ, Bool, true, false, ◌||◌, not, nat_lt, List, [], ◌∷◌, Option, option_map, codes}
use Rattle.std.specs.Bool.{then_some}
use Rattle.std.specs.Str.{bytes_eq}
use Rattle.mol_log_words.specs.Words.{Word, kept}
use Rattle.mol_log_words.specs.Heads.{named, or_else}
use Rattle.mol_log_body.specs.declared.stmt_head.NodeHead.{NodeHead}
use Rattle.mol_log_body.specs.declared.stmt_head.NodeHead.TheVariants.{Block, Let, If, Loop, Simple, Super}
use Rattle.mol_log_body.specs.declared.stmt_head.LoopHead.{LoopHead}
use Rattle.mol_log_body.specs.declared.stmt_head.LoopHead.TheVariants as repeated
use Rattle.mol_log_body.specs.declared.stmt_head.SimpleHead.{SimpleHead}
use Rattle.mol_log_body.specs.declared.stmt_head.SimpleHead.TheVariants as simple
use Rattle.mol_log_body.specs.declared.stmt_head.SuperHead.{SuperHead}
use Rattle.mol_log_body.specs.declared.stmt_head.SuperHead.TheVariants as parent
use Rattle.mol_log_body.specs.declared.stmt_head.ElseHead.{ElseHead}
use Rattle.mol_log_body.specs.declared.stmt_head.ElseHead.TheVariants as otherwise
use Rattle.mol_log_body.specs.declared.stmt_head.StartHead.{StartHead}
use Rattle.mol_log_body.specs.declared.stmt_head.StartHead.TheVariants as start
use Rattle.mol_log_body.specs.declared.stmt_head.Choice.{Choice}
use Rattle.mol_log_body.specs.declared.stmt_head.Choice.TheVariants as choice

abbrev pub loop_spelled : LoopHead → Word
loop_spelled repeated.While = codes "while"
loop_spelled repeated.For = codes "for"
loop_spelled repeated.Each = codes "each"

unfoldable pub loop_head : Word → Option LoopHead
loop_head word = named loop_spelled (repeated.While ∷ repeated.For ∷ repeated.Each ∷ []) word

abbrev pub simple_spelled : SimpleHead → Word
simple_spelled simple.Do = codes "do"
simple_spelled simple.Return = codes "return"
simple_spelled simple.Throw = codes "throw"
simple_spelled simple.Break = codes "break"
simple_spelled simple.Continue = codes "continue"
simple_spelled simple.Empty = codes "empty"

unfoldable pub simple_head : Word → Option SimpleHead
simple_head word = named simple_spelled (simple.Do ∷ simple.Return ∷ simple.Throw ∷ simple.Break ∷ simple.Continue ∷ simple.Empty ∷ []) word

abbrev pub super_spelled : SuperHead → Word
super_spelled parent.Constructor = codes "superc"
super_spelled parent.Default = codes "superd"
super_spelled parent.Outside = codes "superout"

unfoldable pub super_head : Word → Option SuperHead
super_head word = named super_spelled (parent.Constructor ∷ parent.Default ∷ parent.Outside ∷ []) word

abbrev pub node_spelled : NodeHead → Word
node_spelled Block = codes "block"
node_spelled Let = codes "let"
node_spelled If = codes "if"
node_spelled (Loop head) = loop_spelled head
node_spelled (Simple head) = simple_spelled head
node_spelled (Super head) = super_spelled head

unfoldable pub branch_head : Word → Option NodeHead
branch_head word = named node_spelled (Block ∷ Let ∷ If ∷ []) word

unfoldable pub any_node_head : Word → Option NodeHead
any_node_head word =
    or_else (option_map Loop (loop_head word))
    (or_else (option_map Simple (simple_head word)) (or_else (option_map Super (super_head word)) (branch_head word)))

-- whether there is a statement of this form with parts no higher than d; `super(..)` stands first in a body (JLS 8.8.7)
abbrev pub node_fits : Bool → ℕ → NodeHead → Bool
node_fits first d Block = nat_lt 0 d
node_fits first d Let = true
node_fits first d If = nat_lt 0 d
node_fits first d (Loop head) = nat_lt 0 d
node_fits first d (Simple simple.Do) = nat_lt 0 d
node_fits first d (Simple simple.Throw) = nat_lt 0 d
node_fits first d (Simple head) = true
node_fits first d (Super head) = first

abbrev pub node_head_of : Bool → ℕ → Word → Option NodeHead
node_head_of first d word = kept (node_fits first d) (any_node_head word)

abbrev pub else_spelled : ElseHead → Word
else_spelled otherwise.None = codes "none"
else_spelled otherwise.Block = codes "else"
else_spelled otherwise.If = codes "elif"

abbrev pub else_heads : List ElseHead
else_heads = otherwise.None ∷ otherwise.Block ∷ otherwise.If ∷ []

abbrev pub else_fits : ℕ → ElseHead → Bool
else_fits d otherwise.If = nat_lt 0 d
else_fits d head = true

abbrev pub else_head_of : ℕ → Word → Option ElseHead
else_head_of d word = kept (else_fits d) (named else_spelled else_heads word)

abbrev pub start_spelled : StartHead → Word
start_spelled start.None = codes "none"
start_spelled start.Let = codes "let"
start_spelled start.Do = codes "do"

abbrev pub start_heads : List StartHead
start_heads = start.None ∷ start.Let ∷ start.Do ∷ []

abbrev pub start_fits : ℕ → StartHead → Bool
start_fits d start.Do = nat_lt 0 d
start_fits d head = true

abbrev pub start_head_of : ℕ → Word → Option StartHead
start_head_of d word = kept (start_fits d) (named start_spelled start_heads word)

-- two words, of which one says yes
abbrev pub choice_spelled : Choice → Bool → Word
choice_spelled choice.Final false = codes "plain"
choice_spelled choice.Final true = codes "final"
choice_spelled choice.Init false = codes "none"
choice_spelled choice.Init true = codes "init"
choice_spelled choice.Some false = codes "none"
choice_spelled choice.Some true = codes "some"

abbrev pub choice_fits : Bool → Bool → Bool
choice_fits deeper chosen = deeper || not chosen

abbrev pub choice_of : Choice → Bool → Word → Option Bool
choice_of choice deeper word = kept (choice_fits deeper) (named (choice_spelled choice) (false ∷ true ∷ []) word)

abbrev pub is_block : Word → Bool
is_block word = bytes_eq word (codes "block")

abbrev pub is_note : Word → Bool
is_note word = bytes_eq word (codes "note")

-- that it is such a word, of which nothing is kept
abbrev pub marked : (Word → Bool) → Word → Option (Unit {0})
marked test word = then_some (test word) (tt {0})
