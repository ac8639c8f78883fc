-- Texts of refused logs, worked out.
use Rattle.std.proofs.Common.{◌≡◌, [], codes, refl}
use Rattle.std.specs.Fmt.{digits}
use Rattle.mol_base.specs.declared.ident.Id.{Id}
use Rattle.mol_base.specs.declared.ident.Stamp.{Stamp}
use Rattle.mol_base.specs.declared.limit.Which.TheVariants.{Operations}
use Rattle.mol_log_rows.specs.declared.lines.fault.LogFault.TheVariants.{BadBody, TooLong, Torn}
use Rattle.mol_op.specs.declared.fault.OpFault.TheVariants.{Unknown}
use Rattle.mol_replay.specs.declared.fault.ReplayFault.TheVariants.{NotApplicable}
use Rattle.mol_report_logs.specs.LogFaults.{log_fault_text}
use Rattle.mol_report_logs.specs.ReplayFaults.{replay_fault_text}
use Rattle.mol_table_rules.specs.Program.{Program}

-- the last of two lines has no LF
torn : log_fault_text (Torn 2) ≡ codes "torn 2"
unfolding digits
torn = refl

-- the fifteenth word of a body in the third line
bad-body : log_fault_text (BadBody 3 14) ≡ codes "bad-body 3 14"
unfolding digits
bad-body = refl

-- an entry too many
too-long : log_fault_text (TooLong Operations 65536) ≡ codes "too-long operations 65536"
unfolding digits
too-long = refl

-- an entry names what the base does not know
first-stamp : Stamp
first-stamp = record { tag = codes "ann"; seq = 1 }

strange : Id
strange = record { tag = []; num = 99 }

not-applicable : (base : Program) → replay_fault_text base (NotApplicable first-stamp (Unknown strange)) ≡ codes "not-applicable ann@1 unknown :99"
unfolding digits first-stamp strange
not-applicable base = refl
