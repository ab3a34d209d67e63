use Rattle.std.proofs.Common.{◌≡◌, ℕ, suc, ◌+◌, ◌-◌, ◌<◌, ◌≤◌, List, length, take, set, Ok, sym, ap, ◌∙◌, arith, length-set}
use Rattle.std.proofs.lemmas.List.{take_more_set}
use Rattle.reader.specs.Readers.{Reader, entries_at}
use Rattle.reader.proofs.Lists.{entries_turn}
use Rattle.reader.proofs.entries.fill_entries.Goals as goal

below : (m n : ℕ) → m ≤ n → (m ≡ n → ⊥) → m < n
below m n h ne = omega arith

-- one more entry was read and put into the space
turned : {P : Type 0} (entry : List P → Reader P) (list : ℕ) (file : List ℕ) (space : List P) (count at end : ℕ) (p : P) (next : ℕ) → count < length space → at < end → entry (take count space) file at end ≡ Ok (p, next) → entries_at entry list (length (set space count p) - (count + 1)) (take (count + 1) (set space count p)) file next end ≡ entries_at entry list (length space - count) (take count space) file at end
turned entry list file space count at end p next room left e =
    let more : length space - count ≡ suc (length space - (count + 1)) = omega arith in
    ap (λ (n : ℕ). entries_at entry list (n - (count + 1)) (take (count + 1) (set space count p)) file next end) (length-set space count p)
    ∙ (ap (λ (xs : List _). entries_at entry list (length space - (count + 1)) xs file next end) (take_more_set space count p room)
    ∙ (sym (entries_turn entry list (length space - (count + 1)) (take count space) file at end p next left e)
    ∙ ap (λ (n : ℕ). entries_at entry list n (take count space) file at end) (sym more)))

pub loop-cursor-preserved : goal.loop-cursor-preserved
loop-cursor-preserved g c =
    let old = c.loop-cursor.cursor in
    let space = c.loop-cursor.space in
    let count = c.loop-cursor.count in
    let p = c.in_ok-space.field-0 in
    let r = c.in_ok-space.ensures.is in
    let room = below _ _ c.loop-cursor.invariant.0 c.if-count-space.false in
    let n = length-set space count p in
    let turn = turned (g.R.EntryReader.reads c.args.reader.now) c.args.list old.file.now space count old.at old.end p c.read.new.cursor.at room c.loop-cursor-test.true (sym r.is) in (
      rw n (omega (arith, room)),
      n ∙ c.loop-cursor.invariant.1,
      rw (r.file, r.end) (turn ∙ c.loop-cursor.invariant.2),
    )
