-- No second outcome fits the contract of any public operation: shown on the contracts as the checker reads them.
use Rattle.std.proofs.Common.{◌≡◌, ℕ, Bool}
use Rattle.bits.proofs.Same.{same}
use Rattle.cop0.specs.declared.registers.Cop0.{Cop0}
use Rattle.exception.specs.declared.kinds.Exception.{Exception}
use Rattle.exception.specs.declared.vectors.VectorKind.{VectorKind}
use Rattle.exception.specs.declared.epilogue.Dispatched.{Dispatched}
use Rattle.exception.specs.declared.returning.Returned.{Returned}
use Rattle.exception.proofs.Answers.{kind_one}
use Rattle.exception.proofs.kinds.exc_code_of.Reads as exc_code_of
use Rattle.exception.proofs.kinds.vector_kind_of.Reads as vector_kind_of
use Rattle.exception.proofs.kinds.writes_bad_vaddr.Reads as writes_bad_vaddr
use Rattle.exception.proofs.vectors.vector.Reads as vector
use Rattle.exception.proofs.epilogue.cause.Reads as cause
use Rattle.exception.proofs.epilogue.epc.Reads as epc
use Rattle.exception.proofs.epilogue.context.Reads as context
use Rattle.exception.proofs.epilogue.xcontext.Reads as xcontext
use Rattle.exception.proofs.epilogue.entry_hi.Reads as entry_hi
use Rattle.exception.proofs.taking.dispatch.Reads as dispatch
use Rattle.exception.proofs.taking.nmi.Reads as nmi
use Rattle.exception.proofs.taking.nmi_status.Reads as nmi_status
use Rattle.exception.proofs.returning.eret.Reads as eret

pub exc_code_of_unique : (a : Exception × Unit {0}) (r r' : ℕ) → exc_code_of.Post tt a r a → exc_code_of.Post tt a r' a → r ≡ r'
exc_code_of_unique a r r' = same

pub vector_kind_of_unique : (a : Exception × Unit {0}) (r r' : VectorKind) → vector_kind_of.Post tt a r a
    → vector_kind_of.Post tt a r' a → r ≡ r'
vector_kind_of_unique a r r' p q = kind_one r r' (same p q)

pub writes_bad_vaddr_unique : (a : Exception × Unit {0}) (r r' : Bool) → writes_bad_vaddr.Post tt a r a
    → writes_bad_vaddr.Post tt a r' a → r ≡ r'
writes_bad_vaddr_unique a r r' = same

pub vector_unique : (a : ℕ × (VectorKind × Unit {0})) (r r' : ℕ) → vector.Post tt a r a → vector.Post tt a r' a → r ≡ r'
vector_unique a r r' = same

pub cause_unique : (a : ℕ × (Exception × Unit {0})) (r r' : ℕ) → cause.Post tt a r a → cause.Post tt a r' a → r ≡ r'
cause_unique a r r' = same

pub epc_unique : (a : ℕ × (Bool × Unit {0})) (r r' : ℕ) → epc.Post tt a r a → epc.Post tt a r' a → r ≡ r'
epc_unique a r r' = same

pub context_unique : (a : ℕ × (ℕ × Unit {0})) (r r' : ℕ) → context.Post tt a r a → context.Post tt a r' a → r ≡ r'
context_unique a r r' = same

pub xcontext_unique : (a : ℕ × (ℕ × Unit {0})) (r r' : ℕ) → xcontext.Post tt a r a → xcontext.Post tt a r' a → r ≡ r'
xcontext_unique a r r' = same

pub entry_hi_unique : (a : ℕ × (ℕ × Unit {0})) (r r' : ℕ) → entry_hi.Post tt a r a → entry_hi.Post tt a r' a → r ≡ r'
entry_hi_unique a r r' = same

pub dispatch_unique : (a : Cop0 × (Exception × (ℕ × (Bool × (ℕ × Unit {0}))))) (r r' : Dispatched) → dispatch.Post tt a r a
    → dispatch.Post tt a r' a → r ≡ r'
dispatch_unique a r r' = same

pub nmi_unique : (a : Cop0 × (ℕ × Unit {0})) (r r' : Dispatched) → nmi.Post tt a r a → nmi.Post tt a r' a → r ≡ r'
nmi_unique a r r' = same

pub nmi_status_unique : (a : ℕ × Unit {0}) (r r' : ℕ) → nmi_status.Post tt a r a → nmi_status.Post tt a r' a → r ≡ r'
nmi_status_unique a r r' = same

pub eret_unique : (a : Cop0 × Unit {0}) (r r' : Returned) → eret.Post tt a r a → eret.Post tt a r' a → r ≡ r'
eret_unique a r r' = same
