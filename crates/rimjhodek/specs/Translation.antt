-- A translation as it crosses.
use Rattle.std.specs.Prelude.{ℕ, ◌+◌, Bool, cond, not, ◌&&◌, Result, Ok, Err}
use Rattle.bits.specs.Field.{field_of}
use Rattle.tlb.specs.declared.table.Tlb.{Tlb}
use Rattle.addr.specs.Answers.{error_number}
use Rattle.addr.specs.Segments.{inside}
use Rattle.addr.specs.Translate.{translate_answer, translate_table}
use Rattle.rimjhodek.specs.declared.modes.By.{By}
use Rattle.rimjhodek.specs.declared.table.Looked.{Looked}
use Rattle.addr.specs.declared.translate.Physical.{Physical}
use Rattle.addr.specs.declared.translate.TranslateError.{TranslateError}
use Rattle.rimjhodek.specs.Numbered.{unknown}
use Rattle.rimjhodek.specs.Modes.{is_mode, access_in, is_cached}
use Rattle.rimjhodek.specs.Table.{failed}

-- error 0 is none; a failure is its number and 1
abbrev pub translated_of : Result Physical TranslateError → Looked
translated_of (Ok p) = record { error = 0; uncached = not (is_cached p.cached); entry = p.entry; addr = p.addr }
translated_of (Err e) = failed (1 + error_number e)

-- a number that names no mode is refused, and changes nothing
unfoldable pub via_answer : Tlb → ℕ → ℕ → Bool → By → Looked
via_answer t v asid store a =
    cond (is_mode a.mode) (translated_of (translate_answer t v asid store (access_in a))) (failed unknown)

unfoldable pub via_table : Tlb → ℕ → ℕ → By → Tlb
via_table t v asid a = cond (is_mode a.mode) (translate_table t v asid (access_in a)) t

-- the low 2 GB without ERL: mapped in every mode and width (5.2.2)
unfoldable pub is_useg : Bool → ℕ → Bool
is_useg erl v = not erl && inside 0 0x7FFF_FFFF v

-- KSEG0, which is cached, and KSEG1, which is not (5.2.4)
abbrev pub is_kseg0 : ℕ → Bool
is_kseg0 v = inside 0xFFFF_FFFF_8000_0000 0xFFFF_FFFF_9FFF_FFFF v

abbrev pub is_kseg1 : ℕ → Bool
is_kseg1 v = inside 0xFFFF_FFFF_A000_0000 0xFFFF_FFFF_BFFF_FFFF v

-- an address that no entry gave
abbrev pub direct : ℕ → Bool → Looked
direct p uncached = record { error = 0; uncached = uncached; entry = 32; addr = p }

-- bits 28..0
abbrev pub unmapped : ℕ → Bool → Looked
unmapped v uncached = direct (field_of v 28 0) uncached
