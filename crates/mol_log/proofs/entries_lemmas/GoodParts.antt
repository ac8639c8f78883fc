-- A row that spells an operation has no bad word, and another one has one first bad word.
use Rattle.std.proofs.Common.{◌≡◌, ℕ, List, [], ◌∷◌, ◌++◌, Option, None, Some}
use Rattle.mol_op.specs.declared.op.Op.{Op}
use Rattle.mol_log_rows.specs.declared.rows.row.ParamRow.{ParamRow}
use Rattle.mol_log_rows.specs.declared.rows.row.Row.{Row}
use Rattle.mol_values_types.specs.declared.param.Param.{Param}
use Rattle.mol_log_words.specs.declared.type_role.TypeRole.TheVariants.{Super}
use Rattle.mol_log.proofs.entries_lemmas.BadWords.{good_or_bad, one_place}
use Rattle.mol_log.specs.entries.Spelling.{SpellsMaybe, SpellParams, Spells, add_class, add_field, add_method, add_override}
use Rattle.mol_log.specs.entries.Spelling.{add_constructor, delete, set_body, set_value, rename_class, rename_method, move_class}
use Rattle.mol_log.specs.entries.Spelling.{move_method, change_signature}
use Rattle.mol_log.specs.entries.Trees.{Ws, SpellsType, SpellsValue, SpellsBody, Part, type, value, body, maybe, param_types, parts}
use Rattle.mol_log.specs.entries.Trees.{IsGood, IsBad, AreGood, HaveBad, here, later, Good, Bad}

-- ---- lists of parts

pub good_all : (all more : List Part) → AreGood all → AreGood more → AreGood (all ++ more)
good_all [] more a b = b
good_all (part ∷ all) more a b = (a.0, good_all all more a.1 b)

pub bad_before : {all : List Part} {word : ℕ} (more : List Part) → HaveBad all word → HaveBad (all ++ more) word
bad_before more (here bad) = here bad
bad_before more (later good bad) = later good (bad_before more bad)

pub bad_after : (all : List Part) {more : List Part} {word : ℕ} → AreGood all → HaveBad more word → HaveBad (all ++ more) word
bad_after [] good bad = bad
bad_after (part ∷ all) good bad = later good.0 (bad_after all good.1 bad)

-- ---- what spells something is good

maybe_good : {T : Type 0} (Is : T → Ws → Type 0) (part : Ws → Part) → ((t : T) (words : Ws) → Is t words → IsGood (part words))
    → (t : Option T) (words : Option Ws) → SpellsMaybe Is t words → AreGood (maybe part words)
maybe_good Is part law None None x = tt
maybe_good Is part law (Some t) (Some words) x = (law t words x, tt)
maybe_good Is part law None (Some words) x = absurd x
maybe_good Is part law (Some t) None x = absurd x

pub params_good : (rows : List ParamRow) (params : List Param) → SpellParams rows params → AreGood (param_types rows)
params_good [] [] x = tt
params_good (row ∷ rows) (param ∷ params) x = ((param.ty, x.0.ty), params_good rows params x.1)
params_good [] (param ∷ params) x = absurd x
params_good (row ∷ rows) [] x = absurd x

good : {row : Row} {op : Op} → Spells row op → Good row
good (add_class {op = op} x) = maybe_good (SpellsType Super) (type Super) (λ t words is. (t, is)) op.parent _ x.parent
good (add_field {op = op} x) = ((op.ty, x.ty), maybe_good SpellsValue value (λ e words is. (e, is)) op.value _ x.value)
good (add_method {row = row} {op = op} x) = (
  (op.result, x.result),
  good_all (param_types row.params) (maybe body row.body) (params_good row.params op.params x.params)
      (maybe_good SpellsBody body (λ b words is. (b, is)) op.body _ x.body),
)
good (add_override {op = op} x) = maybe_good SpellsBody body (λ b words is. (b, is)) op.body _ x.body
good (add_constructor {row = row} {op = op} x) =
    good_all (param_types row.params) (maybe body row.body) (params_good row.params op.params x.params)
    (maybe_good SpellsBody body (λ b words is. (b, is)) op.body _ x.body)
good (delete x) = tt
good (set_body {op = op} x) = maybe_good SpellsBody body (λ b words is. (b, is)) op.body _ x.body
good (set_value {op = op} x) = ((op.ty, x.ty), maybe_good SpellsValue value (λ e words is. (e, is)) op.value _ x.value)
good (rename_class x) = tt
good (rename_method x) = tt
good (move_class x) = tt
good (move_method x) = tt
good (change_signature {row = row} {op = op} x) = ((op.result, x.result), params_good row.params op.params x.params)

-- ---- good or bad, and one bad word

part_clash : (part : Part) (word : ℕ) → IsGood part → IsBad part word → ⊥
part_clash (type role words) word is bad = good_or_bad (SpellsType role) words word is.0 is.1 bad
part_clash (value words) word is bad = good_or_bad SpellsValue words word is.0 is.1 bad
part_clash (body words) word is bad = good_or_bad SpellsBody words word is.0 is.1 bad

part_place : (part : Part) (word word' : ℕ) → IsBad part word → IsBad part word' → word ≡ word'
part_place (type role words) word word' bad bad' = one_place (SpellsType role) words word word' bad bad'
part_place (value words) word word' bad bad' = one_place SpellsValue words word word' bad bad'
part_place (body words) word word' bad bad' = one_place SpellsBody words word word' bad bad'

parts_clash : {all : List Part} {word : ℕ} → AreGood all → HaveBad all word → ⊥
parts_clash is (here {part} {word = word} bad) = part_clash part word is.0 bad
parts_clash is (later first bad) = parts_clash is.1 bad

parts_place : {all : List Part} {word word' : ℕ} → HaveBad all word → HaveBad all word' → word ≡ word'
parts_place (here {part} {word = word} bad) (here {word = word'} bad') = part_place part word word' bad bad'
parts_place (here {part} {word = word} bad) (later first bad') = absurd (part_clash part word first bad)
parts_place (later first bad) (here {part} {word = word'} bad') = absurd (part_clash part word' first bad')
parts_place (later first bad) (later first' bad') = parts_place bad bad'

pub clash : {row : Row} {op : Op} {word : ℕ} → Spells row op → Bad row word → ⊥
clash x bad = parts_clash (good x) bad

pub good_clash : (row : Row) (word : ℕ) → Good row → Bad row word → ⊥
good_clash row word is bad = parts_clash is bad

pub one_bad : (row : Row) (word word' : ℕ) → Bad row word → Bad row word' → word ≡ word'
one_bad row word word' bad bad' = parts_place bad bad'
