-- What two histories leave one after the other is the base with the last writes of both.
use Rattle.std.proofs.Common.{◌≡◌, ◌∙◌, refl, sym, ap, ◌++◌, [], ◌∷◌, Option, None, Some}
use Rattle.std.specs.FinMap.{get}
use Rattle.std.specs.Option.{option_or}
use Rattle.mol_base.specs.declared.ident.Id.{Id}
use Rattle.mol_log_rules.proofs.Appended.{last-append}
use Rattle.mol_log_rules.proofs.WhatIsLeft.{left-by, only-left}
use Rattle.mol_log_rules.specs.Histories.{History, after, last, first_named}
use Rattle.mol_merge_rules.specs.United.{united, IsUnited}
use Rattle.mol_op.specs.ChangeLaws.{or-assoc}
use Rattle.mol_op.specs.Changes.{first_name}
use Rattle.mol_table_rules.specs.Program.{Program}
use Rattle.mol_values_types.specs.declared.cell.Cell.{Cell}
use Rattle.mol_values_types.specs.declared.known.Known.{Known}

named-append : (front back : History) (id : Id) → first_named (front ++ back) id ≡ option_or (first_named front id) (first_named back id)
named-append [] back id = refl
named-append (entry ∷ front) back id =
    ap (option_or (first_name entry.change.names id)) (named-append front back id)
    ∙ sym (or-assoc (first_name entry.change.names id) (first_named front id) (first_named back id))

-- what is known before both stands once
once : (b f g : Option Known) → option_or (option_or b f) (option_or b g) ≡ option_or b (option_or f g)
once (Some known) f g = refl
once None f g = refl

module _ (base : Program) (one other : History) where
  -- the last value of both, one after the other
  value-of : (at : Cell) → option_or (last (one ++ other) at) (get base.cells at)
      ≡ option_or (last other at) (option_or (last one at) (get base.cells at))
  value-of at =
      ap (λ o. option_or o (get base.cells at)) (last-append one other at) ∙ or-assoc (last other at) (last one at) (get base.cells at)

  name-of : (id : Id) → option_or (get base.known id) (first_named (one ++ other) id)
      ≡ option_or (get (after base one).known id) (get (after base other).known id)
  name-of id =
      ap (option_or (get base.known id)) (named-append one other id)
      ∙ sym (once (get base.known id) (first_named one id) (first_named other id))
      ∙ (λ i. option_or (sym ((left-by base one).known id) i) (sym ((left-by base other).known id) i))

  pub united-is : IsUnited base one other (united base one other)
  united-is = record {
    cells = λ at. (left-by base (one ++ other)).cells at ∙ value-of at;
    known = λ id. (left-by base (one ++ other)).known id ∙ name-of id;
  }

  pub united-only : (program : Program) → IsUnited base one other program → program ≡ united base one other
  united-only program is = only-left base program (one ++ other) (record {
    cells = λ at. is.cells at ∙ sym (value-of at);
    known = λ id. is.known id ∙ sym (name-of id);
  })
