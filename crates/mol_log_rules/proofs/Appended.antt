-- Histories, and the entries of logs, one behind the other.
use Rattle.std.proofs.Common.{◌≡◌, ◌∙◌, refl, sym, ap, ℕ, List, [], ◌∷◌, ◌++◌}
use Rattle.std.specs.Option.{option_or}
use Rattle.std.specs.Prelude.{◌↔◌}
use Rattle.mol_base.specs.declared.ident.Stamp.{Stamp}
use Rattle.mol_log.specs.LogForms.{Follow}
use Rattle.mol_log.specs.declared.entries.entry.Entry.{Entry}
use Rattle.mol_log_rules.specs.Histories.{History, AppliesOn, after, last}
use Rattle.mol_op.specs.ChangeLaws.{or-assoc, or-none}
use Rattle.mol_op.specs.Changes.{last_write, written}
use Rattle.mol_table_rules.specs.Program.{Program}
use Rattle.mol_values_types.specs.declared.cell.Cell.{Cell}

pub leaves-append : (base : Program) (front back : History) → after base (front ++ back) ≡ after (after base front) back
leaves-append base [] back = refl
leaves-append base (entry ∷ front) back = leaves-append (written base entry.change.writes entry.change.names) front back

both-apply : (base : Program) (front back : History) → AppliesOn base front → AppliesOn (after base front) back → AppliesOn base (front ++ back)
both-apply base [] back first second = second
both-apply base (entry ∷ front) back first second =
    (first.0, both-apply (written base entry.change.writes entry.change.names) front back first.1 second)

each-applies : (base : Program) (front back : History) → AppliesOn base (front ++ back) → AppliesOn base front × AppliesOn (after base front) back
each-applies base [] back applies = (tt {0}, applies)
each-applies base (entry ∷ front) back applies =
    let rest = each-applies (written base entry.change.writes entry.change.names) front back applies.1 in
    ((applies.0, rest.0), rest.1)

pub applies-append : (base : Program) (front back : History)
    → AppliesOn base (front ++ back) ↔ (AppliesOn base front × AppliesOn (after base front) back)
applies-append base front back = (each-applies base front back, λ both. both-apply base front back both.0 both.1)

pub last-append : (front back : History) (at : Cell) → last (front ++ back) at ≡ option_or (last back at) (last front at)
last-append [] back at = sym (or-none (last back at))
last-append (entry ∷ front) back at =
    ap (λ o. option_or o (last_write entry.change.writes at)) (last-append front back at)
    ∙ or-assoc (last back at) (last front at) (last_write entry.change.writes at)

-- ---- stamps

-- the stamps before what comes behind these entries, the latest one first
abbrev pub stamps_behind : List Stamp → List Entry → List Stamp
stamps_behind earlier [] = earlier
stamps_behind earlier (entry ∷ entries) = stamps_behind (entry.stamp ∷ earlier) entries

both-follow : (tags : List (List ℕ)) (earlier : List Stamp) (front back : List Entry) → Follow tags earlier front
    → Follow tags (stamps_behind earlier front) back → Follow tags earlier (front ++ back)
both-follow tags earlier [] back first second = second
both-follow tags earlier (entry ∷ front) back first second = (first.0, both-follow tags (entry.stamp ∷ earlier) front back first.1 second)

each-follows : (tags : List (List ℕ)) (earlier : List Stamp) (front back : List Entry) → Follow tags earlier (front ++ back)
    → Follow tags earlier front × Follow tags (stamps_behind earlier front) back
each-follows tags earlier [] back follow = (tt {0}, follow)
each-follows tags earlier (entry ∷ front) back follow =
    let rest = each-follows tags (entry.stamp ∷ earlier) front back follow.1 in
    ((follow.0, rest.0), rest.1)

pub follow-append : (tags : List (List ℕ)) (earlier : List Stamp) (front back : List Entry)
    → Follow tags earlier (front ++ back) ↔ (Follow tags earlier front × Follow tags (stamps_behind earlier front) back)
follow-append tags earlier front back =
    (each-follows tags earlier front back, λ both. both-follow tags earlier front back both.0 both.1)
