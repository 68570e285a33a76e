-- `dcache::write` replaces the bytes and sets dirty, where nothing is refused.
use mathlib.Core.Path.{refl, sym, ◌∙◌}
use native.Mathlib.Omega.{arith}
use Rattle.lines.proofs.AccessLaws.{allowed}
use Rattle.lines.proofs.ByteLaws.{put_is}
use Rattle.cache.specs.Data.{write_told, write_bytes, write_tags}
use Rattle.cache.proofs.PartLaws.{passed, all_there}
use Rattle.cache.proofs.dcache.write.Goals as goal

pub returns : goal.returns
unfolding write_told write_bytes write_tags
returns c =
    let a = c.args in
    let ok = allowed a.addr a.len (sym c.in_ok-check.ensures) in
    let sized = c.in_ok-check_sized.ensures in
    let long = all_there 8192 _ _ _ sized in
    rw (
      passed _ _ sized,
      ← c.in_ok-check.ensures,
      ← c.word_for-old.ensures,
      ← c.marked.ensures,
      ← c.start.ensures,
    ) (
      refl,
      c.put_big_endian.ensures ∙ put_is a.lines.now _ a.len (omega (arith, ok.1, long, c.start.ensures)) ok.0 a.value,
      c.replace.ensures,
    )
