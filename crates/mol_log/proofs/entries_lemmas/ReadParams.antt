-- Parameters that are read one after the other.
use Rattle.std.proofs.Common.{◌≡◌, ℕ, List, [], ◌∷◌, ◌++◌, refl, sym, subst}
use Rattle.mol_log_rows.specs.declared.rows.row.ParamRow.{ParamRow}
use Rattle.mol_values_types.specs.declared.param.Param.{Param}
use Rattle.mol_log_words.specs.declared.fault.BadWord.{BadWord}
use Rattle.mol_log_words.specs.declared.fault.BadWord.TheVariants.{OutOfMemory, Bad}
use Rattle.mol_log_words.specs.declared.type_role.TypeRole.TheVariants.{Value}
use Rattle.mol_log.proofs.entries_lemmas.GoodParts.{bad_before}
use Rattle.mol_log.specs.entries.Reading.{Fails}
use Rattle.mol_log.specs.entries.Spelling.{SpellsParam, SpellParams}
use Rattle.mol_log.specs.entries.Trees.{type, param_types, HaveBad, later}

-- the first rows spell the parameters, and these are left
abbrev pub Leaves : List ParamRow → List Param → List ParamRow → Type 0
Leaves rows [] rest = rows ≡ rest
Leaves (row ∷ rows) (param ∷ params) rest = SpellsParam row param × Leaves rows params rest
Leaves [] (param ∷ params) rest = ⊥

pub leaves-start : (rows rest : List ParamRow) (params : List Param) → params ≡ [] → rows ≡ rest → Leaves rows params rest
leaves-start rows rest params none same = subst (λ ps. Leaves rows ps rest) (sym none) same

pub leaves-more : (rows rest : List ParamRow) (params : List Param) (row : ParamRow) (param : Param) → Leaves rows params (row ∷ rest)
    → SpellsParam row param → Leaves rows (params ++ param ∷ []) rest
leaves-more rows rest [] row param same spells = subst (λ rs. Leaves rs (param ∷ []) rest) (sym same) (spells, refl)
leaves-more (first ∷ rows) rest (done ∷ params) row param leaves spells =
    (leaves.0, leaves-more rows rest params row param leaves.1 spells)
leaves-more [] rest (done ∷ params) row param leaves spells = absurd leaves

pub leaves-none : (rows : List ParamRow) (params : List Param) → Leaves rows params [] → SpellParams rows params
leaves-none rows [] same = subst (λ rs. SpellParams rs []) (sym same) tt
leaves-none (row ∷ rows) (param ∷ params) leaves = (leaves.0, leaves-none rows params leaves.1)
leaves-none [] (param ∷ params) leaves = absurd leaves

leaves-bad : (rows rest : List ParamRow) (params : List Param) (row : ParamRow) (word : ℕ) → Leaves rows params (row ∷ rest)
    → HaveBad (type Value row.ty ∷ []) word → HaveBad (param_types rows) word
leaves-bad rows rest [] row word same bad = subst (λ rs. HaveBad (param_types rs) word) (sym same) (bad_before (param_types rest) bad)
leaves-bad (first ∷ rows) rest (done ∷ params) row word leaves bad =
    later (done.ty, leaves.0.ty) (leaves-bad rows rest params row word leaves.1 bad)
leaves-bad [] rest (done ∷ params) row word leaves bad = absurd leaves

pub leaves-failed : (rows rest : List ParamRow) (params : List Param) (row : ParamRow) (fault : BadWord) → Leaves rows params (row ∷ rest)
    → Fails (type Value row.ty ∷ []) fault → Fails (param_types rows) fault
leaves-failed rows rest params row OutOfMemory leaves fails = tt
leaves-failed rows rest params row (Bad word) leaves fails = leaves-bad rows rest params row word leaves fails
