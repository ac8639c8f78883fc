-- Which bytes begin no name and go on with none, by computation.
use Rattle.std.proofs.Common.{◌≡◌, ◌⊎◌, inl, inr, ℕ, true, false, refl, nat_eq}
use Rattle.std.proofs.lemmas.Bool.{cases_Bool, eqb-true}
use Rattle.ucd_derived.specs.Binary.{is_xid_start, is_xid_continue}
use Rattle.ucd_derived.specs.XidStartRanges.{xid_start_ranges}
use Rattle.ucd_derived.specs.XidContinueRanges.{xid_continue_ranges}
use Rattle.ucd_table.specs.Rows.{in_ranges}
use Rattle.mol_base.specs.Lexical.Names.{is_start, is_part}
use Rattle.jav_print_laws.specs.pieces.Pieces.{breaks}

pub slash_starts_none : is_start 47 ≡ false
unfolding is_start is_xid_start in_ranges xid_start_ranges
slash_starts_none = refl

pub dot_starts_none : is_start 46 ≡ false
unfolding is_start is_xid_start in_ranges xid_start_ranges
dot_starts_none = refl

pub space_breaks : breaks 32 ≡ true
unfolding breaks is_part is_start is_xid_start in_ranges xid_start_ranges is_xid_continue xid_continue_ranges
space_breaks = refl

pub backslash_starts_none : is_start 92 ≡ false
unfolding is_start is_xid_start in_ranges xid_start_ranges
backslash_starts_none = refl

u_no_break : breaks 117 ≡ false
unfolding breaks is_part is_start is_xid_start in_ranges xid_start_ranges is_xid_continue xid_continue_ranges
u_no_break = refl

pub u_goes_on : (b : ℕ) → breaks b ≡ true → nat_eq b 117 ≡ false
u_goes_on b h = by_byte (cases_Bool (nat_eq b 117)) where
  by_byte : ((nat_eq b 117 ≡ true) ⊎ (nat_eq b 117 ≡ false)) → nat_eq b 117 ≡ false
  by_byte (inr differs) = differs
  by_byte (inl same) = let e : b ≡ 117 = eqb-true b 117 same in let yes' = rw e at h in let none = u_no_break in absurd cc
