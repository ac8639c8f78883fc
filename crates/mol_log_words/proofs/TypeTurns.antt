-- The reader's steps for types, in the shape of the code.
use Rattle.std.proofs.Common.{◌≡◌, ℕ, zero, suc, ◌-◌, ◌<◌, List, Err, refl, arith, nat_lt, true}
use Rattle.std.proofs.lemmas.Bool.Decides.{nat_tests}
use Rattle.mol_log_words.specs.Words.{Word}
use Rattle.mol_log_words.specs.Reader.{and_then, take}
use Rattle.mol_log_words.specs.TypeHeads.{type_head_of}
use Rattle.mol_log_words.specs.TypeReader.{type_by, type_name, items}
use Rattle.mol_log_words.specs.declared.type_role.TypeRole.{TypeRole}
use Rattle.mol_log_words.specs.declared.type_role.TypeRole.TheVariants.{Value}

pub type_steps : (role : TypeRole) (k : ℕ) (ts : List Word)
    → type_name role k ts ≡ and_then (take (type_head_of role (nat_lt 0 k)) ts) (type_by (items k))
unfolding type_name items
type_steps role zero ts = refl
type_steps role (suc k) ts =
    let q : nat_lt 0 (suc k) ≡ true = grind (arith, nat_tests) in
    rw q refl

pub items_none : (k : ℕ) (ts : List Word) → k ≡ 0 → items k ts ≡ Err ts
unfolding items
items_none zero ts e = refl
items_none (suc k) ts e = absurd (omega arith)

pub items_steps : (k : ℕ) (ts : List Word) → 0 < k → items k ts ≡ type_name Value (k - 1) ts
unfolding items
items_steps zero ts p = absurd (omega arith)
items_steps (suc k) ts p = let e : suc k - 1 ≡ k = omega arith in rw e refl
