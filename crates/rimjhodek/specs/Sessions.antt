-- A session as words: those of its register file and those of its table.
use Rattle.std.specs.Prelude.{◌≡◌, ℕ, List, length}
use Rattle.session.specs.declared.session.Session.{Session}
use Rattle.rimjhodek.specs.Registers.{cop0_in, cop0_words}
use Rattle.rimjhodek.specs.Table.{table_in, table_words}

pub record Words : Type 0 where
  pub cop0 : List ℕ
  pub tlb : List ℕ

abbrev pub words : List ℕ → List ℕ → Words
words cs ts = record { cop0 = cs; tlb = ts }

-- the session that words mean
abbrev pub session_in : Words → Session
session_in w = record { cop0 = cop0_in w.cop0; tlb = table_in w.tlb }

-- the words of a session: no bit is set that means nothing
abbrev pub session_words : Session → Words
session_words s = words (cop0_words s.cop0) (table_words s.tlb)

-- as many words as the types of the lent parts say
pub record Whole (w : Words) : Type 0 where
  pub cop0 : length w.cop0 ≡ 38
  pub tlb : length w.tlb ≡ 132

-- just the words of what they mean
pub record Exact (w : Words) : Type 0 where
  pub cop0 : w.cop0 ≡ cop0_words (cop0_in w.cop0)
  pub tlb : w.tlb ≡ table_words (table_in w.tlb)
