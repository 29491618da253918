-- `print::files::read_full` meets its contract: what a read gives stands behind what was read before.
use Rattle.std.proofs.Common.{◌≡◌, ℕ, ◌+◌, ◌≤◌, List, ◌++◌, length, take, sym, ap, ap₂, subst, ◌∙◌, arith, rules, take-add, drop_at, length-take-le}
use Rattle.std.proofs.lemmas.List.{take-append-le}
use borrow.Rule.Slice.PartMut.{put_mid, post_of}
use Rattle.std.proofs.lemmas.Slice.{take-put_mid_below}
use Rattle.std.proofs.KnownBytes.{Consumes-trans}
use Rattle.std.specs.Io.KnownBytes.{Consumes}
use Rattle.print.proofs.files.read_full.Goals as goal

read_more : (d n k : ℕ) (xs ys : List ℕ) → d ≤ length xs → n ≤ length ys → take (d + n) (put_mid d k xs ys) ≡ take d xs ++ take n ys
read_more d n k xs ys p q =
    take-add d n (put_mid d k xs ys)
    ∙ ap₂ (λ (x y : List ℕ). x ++ y) (take-put_mid_below d k xs ys d (omega arith) p)
    (ap (take n) (drop_at (take d xs) (ys ++ post_of d k xs) d (length-take-le d xs p)) ∙ take-append-le n ys (post_of d k xs) q)

pub loop-done-preserved : goal.loop-done-preserved
loop-done-preserved g c =
    let known = g.R.Read.remaining in
    let fits = c.in-Ok.ensures.bound.0 in
    record {
      within = search rules;
      bytes =
          subst (Consumes (known c.args.reader.now) (known c.read.new.self)) (sym (read_more _ _ _ c.loop-done.to c.read.new.buf c.loop-done.invariant.within fits))
          (Consumes-trans (known c.args.reader.now) (known c.loop-done.reader) (known c.read.new.self) _ _ c.loop-done.invariant.bytes c.in-Ok.ensures.bytes.0);
    }
