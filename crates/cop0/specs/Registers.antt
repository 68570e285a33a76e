-- COP0's registers: their numbers, widths and bits (User's Manual, table 1-2 and the register figures of chapters 5 and 6).
use Rattle.std.specs.Prelude.{ℕ, ◌+◌, ◌-◌, ◌^◌, Bool, false, ◌||◌, List, [], ◌∷◌, map, ◌==◌, slice_index}

-- the numbers of the registers that have a name (table 1-2)
abbrev pub Index : ℕ
Index = 0

abbrev pub Random : ℕ
Random = 1

abbrev pub EntryLo0 : ℕ
EntryLo0 = 2

abbrev pub EntryLo1 : ℕ
EntryLo1 = 3

abbrev pub Context : ℕ
Context = 4

abbrev pub PageMask : ℕ
PageMask = 5

abbrev pub Wired : ℕ
Wired = 6

abbrev pub BadVAddr : ℕ
BadVAddr = 8

abbrev pub Count : ℕ
Count = 9

abbrev pub EntryHi : ℕ
EntryHi = 10

abbrev pub Compare : ℕ
Compare = 11

abbrev pub Status : ℕ
Status = 12

abbrev pub Cause : ℕ
Cause = 13

abbrev pub EPC : ℕ
EPC = 14

abbrev pub PRId : ℕ
PRId = 15

abbrev pub Config : ℕ
Config = 16

abbrev pub LLAddr : ℕ
LLAddr = 17

abbrev pub WatchLo : ℕ
WatchLo = 18

abbrev pub WatchHi : ℕ
WatchHi = 19

abbrev pub XContext : ℕ
XContext = 20

abbrev pub PErr : ℕ
PErr = 26

abbrev pub CacheErr : ℕ
CacheErr = 27

abbrev pub TagLo : ℕ
TagLo = 28

abbrev pub TagHi : ℕ
TagHi = 29

abbrev pub ErrorEPC : ℕ
ErrorEPC = 30

abbrev pub named : List ℕ
named =
    Index
    ∷ Random
    ∷ EntryLo0
    ∷ EntryLo1
    ∷ Context
    ∷ PageMask
    ∷ Wired
    ∷ BadVAddr
    ∷ Count
    ∷ EntryHi
    ∷ Compare
    ∷ Status
    ∷ Cause
    ∷ EPC
    ∷ PRId
    ∷ Config
    ∷ LLAddr
    ∷ WatchLo
    ∷ WatchHi
    ∷ XContext
    ∷ PErr
    ∷ CacheErr
    ∷ TagLo
    ∷ TagHi
    ∷ ErrorEPC
    ∷ []

-- n stands in the list
unfoldable pub among : List ℕ → ℕ → Bool
among [] n = false
among (m ∷ ms) n = n == m || among ms n

-- the registers of 64 bits
unfoldable pub wide : ℕ → Bool
wide n = among (EntryLo0 ∷ EntryLo1 ∷ Context ∷ BadVAddr ∷ EntryHi ∷ EPC ∷ XContext ∷ ErrorEPC ∷ []) n

-- "reserved for future use" (table 1-2): these read the latch of the last MTC0 or DMTC0
unfoldable pub unused : ℕ → Bool
unused n = among (7 ∷ 21 ∷ 22 ∷ 23 ∷ 24 ∷ 25 ∷ 31 ∷ []) n

-- bits hi..lo, as a figure draws a field
pub record Range : Type 0 where
  pub hi : ℕ
  pub lo : ℕ

infixl 80 ◌⋯◌
abbrev pub ◌⋯◌ : ℕ → ℕ → Range
hi ⋯ lo = record { hi = hi; lo = lo }

-- one bit
abbrev pub at : ℕ → Range
at b = b ⋯ b

-- the mask of some ranges that do not meet
abbrev pub mask_of : List Range → ℕ
mask_of [] = 0
mask_of (r ∷ rs) = 2 ^ (r.hi + 1) - 2 ^ r.lo + mask_of rs

-- the bits that software can write, register by register
abbrev pub writable : List (List Range)
writable =
    (at 31 ∷ 5 ⋯ 0 ∷ [])  -- 0 Index: P, Index (figure 5-11)
    ∷ []  -- 1 Random is read-only (5.4.2)
    ∷ (29 ⋯ 0 ∷ [])  -- 2 EntryLo0: PFN, C, D, V, G, and the four bits above, which read back as written
    ∷ (29 ⋯ 0 ∷ [])  -- 3 EntryLo1: the same
    ∷ (63 ⋯ 23 ∷ [])  -- 4 Context: PTEBase
    ∷ (24 ⋯ 13 ∷ [])  -- 5 PageMask: MASK
    ∷ (5 ⋯ 0 ∷ [])  -- 6 Wired: six bits
    ∷ []  -- 7 unused
    ∷ []  -- 8 BadVAddr is read-only (6.3.2)
    ∷ (31 ⋯ 0 ∷ [])  -- 9 Count
    ∷ (63 ⋯ 62 ∷ 39 ⋯ 13 ∷ 7 ⋯ 0 ∷ [])  -- 10 EntryHi: R, VPN2, ASID (figure 5-10)
    ∷ (31 ⋯ 0 ∷ [])  -- 11 Compare
    ∷ (31 ⋯ 24 ∷ at 22 ∷ at 20 ∷ 18 ⋯ 0 ∷ [])  -- 12 Status: all but TS (21) and the zeros 23 and 19 (figure 6-6)
    ∷ (9 ⋯ 8 ∷ [])  -- 13 Cause: IP1 and IP0 (6.3.6)
    ∷ (63 ⋯ 0 ∷ [])  -- 14 EPC
    ∷ []  -- 15 PRId is read-only
    ∷ (27 ⋯ 24 ∷ at 15 ∷ at 3 ∷ 2 ⋯ 0 ∷ [])  -- 16 Config: EP, BE, CU, K0 (figure 5-16)
    ∷ (31 ⋯ 0 ∷ [])  -- 17 LLAddr
    ∷ (31 ⋯ 3 ∷ 1 ⋯ 0 ∷ [])  -- 18 WatchLo: PAddr0, R, W
    ∷ (3 ⋯ 0 ∷ [])  -- 19 WatchHi: PAddr1
    ∷ (63 ⋯ 33 ∷ [])  -- 20 XContext: PTEBase
    ∷ []  -- 21 unused
    ∷ []  -- 22 unused
    ∷ []  -- 23 unused
    ∷ []  -- 24 unused
    ∷ []  -- 25 unused
    ∷ (7 ⋯ 0 ∷ [])  -- 26 PErr: Diagnostic
    ∷ []  -- 27 CacheErr is read-only
    ∷ (27 ⋯ 8 ∷ 7 ⋯ 6 ∷ [])  -- 28 TagLo: PTagLo, PState
    ∷ []  -- 29 TagHi is reserved
    ∷ (63 ⋯ 0 ∷ [])  -- 30 ErrorEPC
    ∷ []  -- 31 unused
    ∷ []

-- the bits that a read can give, register by register: those of a figure, whoever writes them
abbrev pub readable : List (List Range)
readable =
    (at 31 ∷ 5 ⋯ 0 ∷ [])  -- 0 Index
    ∷ (5 ⋯ 0 ∷ [])  -- 1 Random
    ∷ (29 ⋯ 0 ∷ [])  -- 2 EntryLo0
    ∷ (29 ⋯ 0 ∷ [])  -- 3 EntryLo1
    ∷ (63 ⋯ 23 ∷ 22 ⋯ 4 ∷ [])  -- 4 Context: PTEBase, BadVPN2
    ∷ (24 ⋯ 13 ∷ [])  -- 5 PageMask
    ∷ (5 ⋯ 0 ∷ [])  -- 6 Wired
    ∷ []  -- 7 unused
    ∷ (63 ⋯ 0 ∷ [])  -- 8 BadVAddr
    ∷ (31 ⋯ 0 ∷ [])  -- 9 Count
    ∷ (63 ⋯ 62 ∷ 39 ⋯ 13 ∷ 7 ⋯ 0 ∷ [])  -- 10 EntryHi; Fill (61..40) reads zero
    ∷ (31 ⋯ 0 ∷ [])  -- 11 Compare
    ∷ (31 ⋯ 24 ∷ 22 ⋯ 20 ∷ 18 ⋯ 0 ∷ [])  -- 12 Status
    ∷ (at 31 ∷ 29 ⋯ 28 ∷ 15 ⋯ 8 ∷ 6 ⋯ 2 ∷ [])  -- 13 Cause: BD, CE, IP, ExcCode
    ∷ (63 ⋯ 0 ∷ [])  -- 14 EPC
    ∷ (15 ⋯ 8 ∷ 7 ⋯ 0 ∷ [])  -- 15 PRId: Imp, Rev
    ∷ (27 ⋯ 24 ∷ at 15 ∷ at 3 ∷ 2 ⋯ 0 ∷ [])  -- 16 Config, but for EC and the bits that are wired
    ∷ (31 ⋯ 0 ∷ [])  -- 17 LLAddr
    ∷ (31 ⋯ 3 ∷ 1 ⋯ 0 ∷ [])  -- 18 WatchLo
    ∷ (3 ⋯ 0 ∷ [])  -- 19 WatchHi
    ∷ (63 ⋯ 33 ∷ 32 ⋯ 31 ∷ 30 ⋯ 4 ∷ [])  -- 20 XContext: PTEBase, R, BadVPN2
    ∷ []  -- 21 unused
    ∷ []  -- 22 unused
    ∷ []  -- 23 unused
    ∷ []  -- 24 unused
    ∷ []  -- 25 unused
    ∷ (7 ⋯ 0 ∷ [])  -- 26 PErr
    ∷ []  -- 27 CacheErr
    ∷ (27 ⋯ 8 ∷ 7 ⋯ 6 ∷ [])  -- 28 TagLo
    ∷ []  -- 29 TagHi
    ∷ (63 ⋯ 0 ∷ [])  -- 30 ErrorEPC
    ∷ []  -- 31 unused
    ∷ []

unfoldable pub write_mask : ℕ → ℕ
write_mask n = slice_index (map mask_of writable) n

unfoldable pub arch_mask : ℕ → ℕ
arch_mask n = slice_index (map mask_of readable) n
