-- A call of an export as a step of the session that the lent words mean.
use Rattle.std.proofs.Common.{◌≡◌, ℕ, Bool, List, length, sym, ap, ◌∙◌, subst}
use Rattle.bits.specs.Told.{Told}
use Rattle.cop0.specs.declared.registers.Cop0.{Cop0}
use Rattle.tlb.specs.declared.table.Tlb.{Tlb}
use Rattle.session.specs.declared.op.Op.{Op}
use Rattle.session.specs.declared.op.Answer.TheVariants as answer
use Rattle.session.specs.Record.{with_cop0, with_tlb}
use Rattle.session.specs.Answers.{told_answer}
use Rattle.session.specs.Step.{told, step_of}
use Rattle.rimjhodek.specs.Registers.{cop0_in, put_in, cop0_words}
use Rattle.rimjhodek.specs.Table.{table_in, put_micro, table_words}
use Rattle.rimjhodek.specs.Sessions.{Words, words, session_in, Whole, Exact}
use Rattle.rimjhodek.proofs.Meaning as registers
use Rattle.rimjhodek.proofs.Tables as tables
use Rattle.rimjhodek.proofs.Exact.{exact_cop0, exact_table}

-- the words cs of a register file, into which c was put: they mean c, they are as many, and where no bit was set that means nothing,
-- none is
pub record Leaves (cs : List ℕ) (c : Cop0) (left : List ℕ) : Type 0 where
  pub means : cop0_in left ≡ c
  pub long : length left ≡ 38
  pub exact : cs ≡ cop0_words (cop0_in cs) → left ≡ cop0_words (cop0_in left)

pub leaves : (cs : List ℕ) → length cs ≡ 38 → (c : Cop0) → registers.Fits c → (left : List ℕ) → left ≡ put_in cs c → Leaves cs c left
leaves cs l c f left e =
    record {
      means = ap (λ (ws : List ℕ). cop0_in ws) e ∙ registers.in_put cs c f;
      long = ap (λ (ws : List ℕ). length ws) e ∙ registers.long_put cs c f;
      exact = λ x. subst (λ (ws : List ℕ). ws ≡ cop0_words (cop0_in ws)) (sym e) (exact_cop0 cs l x c f);
    }

-- yes or no, as the session tells it
abbrev pub told_bool : Bool → Told
told_bool b = told_answer (answer.Flag b)

-- words w, an answer a and the words left: the answer and what the words then mean are the step of o, they are as many, and where no
-- bit was set that means nothing, none is
pub record Steps (o : Op) (w : Words) (a : Told) (left : Words) : Type 0 where
  pub step : told a (session_in left) ≡ step_of o (session_in w)
  pub whole : Whole left
  pub exact : Exact w → Exact left

module _ (o : Op) (w : Words) (h : Whole w) (a : Told) where
  -- no word is written
  pub unwritten : told a (session_in w) ≡ step_of o (session_in w) → Steps o w a w
  unwritten e = record { step = e; whole = h; exact = λ x. x }

  -- another register file
  pub to_cop0 : (c : Cop0) → registers.Fits c → told a (with_cop0 (session_in w) c) ≡ step_of o (session_in w)
      → (cs : List ℕ) → cs ≡ put_in w.cop0 c → Steps o w a (words cs w.tlb)
  to_cop0 c f s cs e =
      let l = leaves w.cop0 h.cop0 c f cs e in
      record {
        step = ap (λ (d : Cop0). told a (with_cop0 (session_in w) d)) l.means ∙ s;
        whole = record { cop0 = l.long; tlb = h.tlb };
        exact = λ x. record { cop0 = l.exact x.cop0; tlb = x.tlb };
      }

  -- another table, put into words ts of which the entries are that table's
  pub to_table : (ts : List ℕ) → length ts ≡ 132 → (w.tlb ≡ table_words (table_in w.tlb) → ts ≡ table_words (table_in ts))
      → (t : Tlb) → tables.Fits ts t → told a (with_tlb (session_in w) t) ≡ step_of o (session_in w)
      → (ts' : List ℕ) → ts' ≡ put_micro ts t → Steps o w a (words w.cop0 ts')
  to_table ts l k t f s ts' e =
      record {
        step = ap (λ (u : Tlb). told a (with_tlb (session_in w) u)) (ap (λ (vs : List ℕ). table_in vs) e ∙ tables.in_put ts t l f) ∙ s;
        whole = record { cop0 = h.cop0; tlb = ap (λ (vs : List ℕ). length vs) e ∙ tables.long_put ts t l };
        exact = λ x.
            record {
              cop0 = x.cop0;
              tlb = subst (λ (vs : List ℕ). vs ≡ table_words (table_in vs)) (sym e) (exact_table ts (k x.tlb) t f l);
            };
      }
