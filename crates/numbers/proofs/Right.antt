-- Every row of the tables holds, by computation: a theorem for each of the scope's numbers, and for each request that gives some.
use mathlib.Core.Path.{◌≡◌, refl}
use mathlib.Core.Bool.{true}
use Rattle.bits.specs.Field.{with_field_of}
use Rattle.bits.specs.Mask.{merged_bits}
use Rattle.cop0.specs.Registers.{among, wide, unused, write_mask, arch_mask}
use Rattle.cop0.specs.Record.{fresh}
use Rattle.cop0.specs.Interrupt.{set_ip_of}
use Rattle.cop0.specs.Clock.{edge_of, asked}
use Rattle.cop0.specs.Random.{random_step, random_steps, tick_random_by_of}
use Rattle.cop0.specs.File.{read_at, besides, write_at, set_hardware_of}
use Rattle.cop0.specs.Access.{moved32, dmtc0_of}
use Rattle.cop0.specs.Advance.{moved, advance_told, advance_of}
use Rattle.addr.specs.Access.{is_kernel_of, access_of}
use Rattle.addr.specs.Segments.{inside, segment_of}
use Rattle.addr.specs.Translate.{translate_answer}
use Rattle.tlb.specs.Entries.{page_size_of, matches_of, half_of, half_answer, entry_answer}
use Rattle.tlb.specs.Table.{fresh_from, matching}
use Rattle.tlb.specs.Lookup.{lookup_answer}
use Rattle.tlb.specs.Moves.{pairs}
use Rattle.exception.specs.Epilogue.{recorded, addressed, handling}
use Rattle.exception.specs.Taking.{taken_of, dispatch_of}
use Rattle.tags.specs.Words.{tag_lo_of, stored_of}
use Rattle.cache.specs.Both.{load_told, resident_told, store_tags}
use Rattle.numbers.specs.Table.{all}
use Rattle.numbers.specs.Translation.{p1, p2, p3, q3}
use Rattle.numbers.specs.Segments.{p4, p5, p6}
use Rattle.numbers.specs.Modes.{q2}
use Rattle.numbers.specs.Entries.{q1}
use Rattle.numbers.specs.Exceptions.{p7, p8}
use Rattle.numbers.specs.RegisterFile.{p9, p10, p11}
use Rattle.numbers.specs.Caches.{p12}

pub p1_holds : all p1 ≡ true
unfolding pairs
p1_holds = refl

pub p2_holds : all p2 ≡ true
unfolding pairs page_size_of
p2_holds = refl

pub p3_holds : all p3 ≡ true
unfolding pairs page_size_of
p3_holds = refl

pub p4_holds : all p4 ≡ true
unfolding segment_of inside
p4_holds = refl

pub p5_holds : all p5 ≡ true
unfolding segment_of inside
p5_holds = refl

pub p6_holds : all p6 ≡ true
unfolding segment_of inside
p6_holds = refl

pub p7_holds : all p7 ≡ true
unfolding recorded addressed handling taken_of dispatch_of unused arch_mask read_at set_hardware_of with_field_of merged_bits among wide write_mask fresh besides write_at moved32 dmtc0_of
p7_holds = refl

pub p8_holds : all p8 ≡ true
unfolding recorded addressed handling taken_of dispatch_of unused arch_mask read_at set_hardware_of with_field_of merged_bits among wide write_mask fresh besides write_at moved32 dmtc0_of
p8_holds = refl

pub p9_holds : all p9 ≡ true
unfolding fresh random_step random_steps tick_random_by_of
p9_holds = refl

pub p10_holds : all p10 ≡ true
unfolding among wide write_mask merged_bits fresh set_ip_of edge_of asked random_step random_steps tick_random_by_of besides write_at moved32 dmtc0_of moved advance_told advance_of with_field_of
p10_holds = refl

pub p11_holds : all p11 ≡ true
unfolding among wide write_mask merged_bits fresh set_ip_of edge_of asked random_step random_steps tick_random_by_of besides write_at moved32 dmtc0_of moved advance_told advance_of with_field_of
p11_holds = refl

pub p12_holds : all p12 ≡ true
unfolding tag_lo_of stored_of load_told resident_told store_tags with_field_of
p12_holds = refl

pub q1_holds : all q1 ≡ true
unfolding fresh_from matching matches_of merged_bits page_size_of half_of half_answer entry_answer lookup_answer segment_of inside translate_answer
q1_holds = refl

pub q2_holds : all q2 ≡ true
unfolding is_kernel_of access_of unused arch_mask read_at merged_bits among wide write_mask fresh besides write_at moved32 dmtc0_of
q2_holds = refl

pub q3_holds : all q3 ≡ true
unfolding pairs
q3_holds = refl
