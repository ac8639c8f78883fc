-- A token of each sort that what was read may need to go on.
use Rattle.std.proofs.Common.{codes, refl}
use Prim.Native.String.{String}
use Rattle.mol_base.specs.Token.{Token}
use Rattle.mol_base.specs.declared.token_kind.TokenKind.TheVariants as kind
use Rattle.jav_parse_cursor.specs.declared.sort.Sort.TheVariants as sort
use Rattle.jav_parse_cursor.specs.Sorts.{sort_of}
use Rattle.jav_parse.proofs.Meets.{Sample}

pub a_symbol : String → Token
a_symbol text = record { kind = kind.Symbol; text = codes text; start = 0; end = 0 }

pub a_keyword : String → Token
a_keyword text = record { kind = kind.Keyword; text = codes text; start = 0; end = 0 }

pub a_name : Sample sort.Name
unfolding sort_of
a_name = record { token = record { kind = kind.Word; text = codes "a"; start = 0; end = 0 }; is = refl; not_end = λ z. cc }

pub a_dot : Sample sort.Dot
unfolding a_symbol sort_of
a_dot = record { token = a_symbol "."; is = refl; not_end = λ z. cc }

pub an_open : Sample sort.Open
unfolding a_symbol sort_of
an_open = record { token = a_symbol "("; is = refl; not_end = λ z. cc }

pub a_close : Sample sort.Close
unfolding a_symbol sort_of
a_close = record { token = a_symbol ")"; is = refl; not_end = λ z. cc }

pub a_left : Sample sort.Left
unfolding a_symbol sort_of
a_left = record { token = a_symbol "["; is = refl; not_end = λ z. cc }

pub a_right : Sample sort.Right
unfolding a_symbol sort_of
a_right = record { token = a_symbol "]"; is = refl; not_end = λ z. cc }

pub a_begin : Sample sort.Begin
unfolding a_symbol sort_of
a_begin = record { token = a_symbol "{"; is = refl; not_end = λ z. cc }

pub a_finish : Sample sort.Finish
unfolding a_symbol sort_of
a_finish = record { token = a_symbol "}"; is = refl; not_end = λ z. cc }

pub a_semi : Sample sort.Semi
unfolding a_symbol sort_of
a_semi = record { token = a_symbol ";"; is = refl; not_end = λ z. cc }

pub a_colon : Sample sort.Colon
unfolding a_symbol sort_of
a_colon = record { token = a_symbol ":"; is = refl; not_end = λ z. cc }

pub an_equals : Sample sort.Equals
unfolding a_symbol sort_of
an_equals = record { token = a_symbol "="; is = refl; not_end = λ z. cc }

pub a_step : Sample sort.Step
unfolding a_symbol sort_of
a_step = record { token = a_symbol "++"; is = refl; not_end = λ z. cc }

pub a_prim : Sample sort.Prim
unfolding a_keyword sort_of
a_prim = record { token = a_keyword "int"; is = refl; not_end = λ z. cc }
