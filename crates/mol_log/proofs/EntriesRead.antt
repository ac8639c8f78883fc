-- The lines of a log are read one after the other.
use Rattle.std.proofs.Common.{◌≡◌, ◌≢◌, ℕ, suc, ◌+◌, ◌<◌, List, [], ◌∷◌, ◌++◌, length, Option, None, Some, sym, ap, ◌∙◌, subst, arith}
use Rattle.std.proofs.Common.{append_assoc, append-nil}
use Rattle.mol_base.specs.declared.ident.Stamp.{Stamp}
use Rattle.mol_log_rows.specs.lines.Lines.{Line, lines_left}
use Rattle.mol_log_rows.specs.declared.lines.fault.LogFault.{LogFault}
use Rattle.mol_log_rows.specs.declared.lines.fault.LogFault.TheVariants.{OutOfMemory}
use Rattle.mol_log_rows.specs.rows.NextRow.{StandsOn}
use Rattle.mol_log_rows.specs.declared.rows.rows.Rows.{Rows}
use Rattle.mol_log.specs.declared.entries.entry.Entry.{Entry}
use Rattle.mol_log.specs.LogLines.{SayEntries, HaveFault, no_lines, more_lines, later}
use Rattle.mol_log.specs.NextEntry.{Stands, TakesEntry, IsNextEntry}

-- The code stands behind lines that say the entries: what the lines that are left say is what follows.
pub record HasRead (tags : List (List ℕ)) (all : List Line) (rows : Rows) (entries : List Entry) : Type 0 where
  pub earlier : List Stamp
  pub number : ℕ
  pub lines : List Line
  pub on : StandsOn rows tags earlier number lines
  pub follow : (more : List Entry) → SayEntries tags earlier number lines more → SayEntries tags [] 2 all (entries ++ more)
  pub fault : (fault : LogFault) → HaveFault tags earlier number lines fault → HaveFault tags [] 2 all fault

module _ (tags : List (List ℕ)) (all : List Line) (rows : Rows) (entries : List Entry) where
  pub none_read : entries ≡ [] → StandsOn rows tags [] 2 all → HasRead tags all rows entries
  none_read none on = record {
    earlier = [];
    number = 2;
    lines = all;
    on = on;
    follow = λ more says. subst (λ es. SayEntries tags [] 2 all (es ++ more)) (sym none) says;
    fault = λ fault has. has;
  }

  module _ (read : HasRead tags all rows entries) where
    pub stands : Stands rows
    stands = record { tags = tags; earlier = read.earlier; number = read.number; lines = read.lines; on = read.on }

    all_read : read.lines ≡ [] → SayEntries tags [] 2 all entries
    all_read none =
        subst (SayEntries tags [] 2 all) (append-nil entries)
        (read.follow [] (subst (λ ls. SayEntries tags read.earlier read.number ls []) (sym none) no_lines))

    -- the next line says no entry
    pub fault_read : (fault : LogFault) → (fault ≢ OutOfMemory → HaveFault tags read.earlier read.number read.lines fault)
        → fault ≢ OutOfMemory → HaveFault tags [] 2 all fault
    fault_read fault has enough = read.fault fault (has enough)

    module _ (new : Rows) (next : Option Entry) (tells : IsNextEntry tags read.earlier read.number read.lines new next) where
      -- no line is left
      pub none_left : next ≡ None → SayEntries tags [] 2 all entries
      none_left none = all_read (subst (IsNextEntry tags read.earlier read.number read.lines new) none tells)

      -- the next line says an entry
      pub some_left : (entry : Entry) → next ≡ Some entry → TakesEntry tags read.earlier read.number read.lines entry new
      some_left entry some = subst (IsNextEntry tags read.earlier read.number read.lines new) some tells

    -- it says an entry
    module _ (entry : Entry) (new : Rows) (takes : TakesEntry tags read.earlier read.number read.lines entry new) where
      pub one_more : (longer : List Entry) → longer ≡ entries ++ entry ∷ [] → HasRead tags all new longer
      one_more longer is = record {
        earlier = entry.stamp ∷ read.earlier;
        number = suc read.number;
        lines = takes.more;
        on =
            let next : read.number + 1 ≡ suc read.number = omega arith in
            subst (λ n. StandsOn new tags (entry.stamp ∷ read.earlier) n takes.more) next takes.behind;
        follow = λ more rest.
            subst (SayEntries tags [] 2 all) (sym (append_assoc entries (entry ∷ []) more) ∙ ap (λ es. es ++ more) (sym is))
            (read.follow (entry ∷ more)
            (subst (λ ls. SayEntries tags read.earlier read.number ls (entry ∷ more)) (sym takes.cut) (more_lines takes.says rest)));
        fault = λ fault has.
            read.fault fault
            (subst (λ ls. HaveFault tags read.earlier read.number ls fault) (sym takes.cut) (later takes.says has));
      }

      -- a line less is left
      pub fewer_left : length (lines_left new.rest) < length (lines_left rows.rest)
      fewer_left =
          let before = ap length (read.on.left ∙ takes.cut) in
          let after = ap length takes.behind.left in
          omega (arith, before, after)
