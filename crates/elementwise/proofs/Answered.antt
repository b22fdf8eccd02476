-- Words that a function of places makes, fiber by fiber.
use Rattle.std.proofs.Common.{◌≡◌, ℕ, ◌+◌, ◌-◌, ◌<◌, ◌≤◌, List, [], ◌∷◌, ◌++◌, length, get_or, take, drop, refl, sym, ◌∙◌, ap, subst, arith, append_assoc, length-append, length-take, length-drop}
use Rattle.std.specs.Prelude.{slice_range}
use Rattle.std.specs.List.{zip}
use borrow.Rule.Slice.PartMut.{put_mid}
use Rattle.std.proofs.Math.Seq.{drop-append_seam, take-append_seam}
use Rattle.std.proofs.lemmas.List.{append-nil, drop-drop, drop_more, drop_all, length-map, map-append, take-append-drop, take_all}
use Rattle.std.proofs.lemmas.Slice.{take-put_mid, drop-put_mid}
use Rattle.std.proofs.lemmas.Slice.Zip.{length-zip}
use Rattle.lanes.specs.Lists.{zip_with}
use Rattle.model.specs.declared.entry.Entry.{Entry}
use Rattle.model.specs.Entries.{entry_at}
use Rattle.store.specs.declared.lists.FiberEnd.{FiberEnd}
use Rattle.store.specs.Fibers.{AreFlat, Rises, entries_along, entries_from, last_end, outers}
use Rattle.store.proofs.FlatLaws.{rises_le}
use Rattle.store.proofs.Walks.{first_fiber}
use Rattle.elementwise.specs.Mapped.{mapped}
use Rattle.elementwise.proofs.Filled.{AreFilled, is_first}

-- what g makes of the words of each fiber, of which the first begins at from
unfoldable pub made_along : (ℕ → ℕ → ℕ → ℕ) → ℕ → List FiberEnd → List ℕ → List ℕ → List ℕ
made_along g from [] inner words = []
made_along g from (r ∷ rs) inner words =
    zip_with (g r.outer) (take (r.end - from) inner) (take (r.end - from) words) ++ made_along g r.end rs (drop (r.end - from) inner) (drop (r.end - from) words)

length_zipped : (f : ℕ → ℕ → ℕ) (xs ys : List ℕ) → length ys ≡ length xs → length (zip_with f xs ys) ≡ length xs
length_zipped f xs ys same = length-map (zip xs ys) (λ (p : ℕ × ℕ). f p.0 p.1) ∙ omega (arith, length-zip xs ys)

along_made : (g : ℕ → ℕ → ℕ → ℕ) (o : ℕ) (cs ws : List ℕ)
    → entries_along o cs (zip_with (g o) cs ws) ≡ mapped g (entries_along o cs ws)
along_made g o [] ws = refl
along_made g o (c ∷ cs) [] = refl
along_made g o (c ∷ cs) (w ∷ ws) = ap (λ es. entry_at o c (g o c w) ∷ es) (along_made g o cs ws)

length_made : (g : ℕ → ℕ → ℕ → ℕ) (from : ℕ) (ends : List FiberEnd) (inner words : List ℕ)
    → AreFilled from ends inner words → length (made_along g from ends inner words) ≡ length inner
unfolding made_along last_end
length_made g from [] inner words h = let whole = h.whole in omega arith
length_made g from (r ∷ rs) inner words h =
    let n = r.end - from in
    let f = is_first from r rs inner words h in
    let rest = length_made g r.end rs (drop n inner) (drop n words) f.rest in
    let room = f.room.1 in
    let here = length_zipped (g r.outer) (take n inner) (take n words) f.lengths in
    omega (arith, length-append (zip_with (g r.outer) (take n inner) (take n words)) (made_along g r.end rs (drop n inner) (drop n words)), length-take n inner, length-drop n inner)

-- the entries with the words that were made
made_entries : (g : ℕ → ℕ → ℕ → ℕ) (from : ℕ) (ends : List FiberEnd) (inner words : List ℕ)
    → AreFilled from ends inner words
    → entries_from from ends inner (made_along g from ends inner words) ≡ mapped g (entries_from from ends inner words)
unfolding made_along outers
made_entries g from [] inner words h = refl
made_entries g from (r ∷ rs) inner words h =
    let n = r.end - from in
    let f = is_first from r rs inner words h in
    let room = f.room.1 in
    let cs = take n inner in
    let here = zip_with (g r.outer) cs (take n words) in
    let rest = made_along g r.end rs (drop n inner) (drop n words) in
    let es = entries_from r.end rs (drop n inner) (drop n words) in
    let count : length here ≡ n = length_zipped (g r.outer) cs (take n words) f.lengths ∙ omega (arith, length-take n inner) in
    let front : take n (here ++ rest) ≡ here = ap (λ k. take k (here ++ rest)) (sym count) ∙ take-append_seam here rest in
    let back : drop n (here ++ rest) ≡ rest = ap (λ k. drop k (here ++ rest)) (sym count) ∙ drop-append_seam here rest in
    let long = length_made g from (r ∷ rs) inner words h in
    first_fiber from r rs inner (here ++ rest) room long
    ∙ ap (λ ws. entries_along r.outer cs ws ++ entries_from r.end rs (drop n inner) (drop n (here ++ rest))) front
    ∙ ap (λ ws. entries_along r.outer cs here ++ entries_from r.end rs (drop n inner) ws) back
    ∙ ap (λ xs. xs ++ entries_from r.end rs (drop n inner) rest) (along_made g r.outer cs (take n words))
    ∙ ap (λ xs. mapped g (entries_along r.outer cs (take n words)) ++ xs) (made_entries g r.end rs (drop n inner) (drop n words) f.rest)
    ∙ sym (map-append (λ (e : Entry). entry_at e.row e.col (g e.row e.col e.word)) (entries_along r.outer cs (take n words)) es)
    ∙ ap (mapped g) (sym f.parts)

-- ---- in place

-- the words of the first fibers are made, which end at start
pub record AreAnswered (g : ℕ → ℕ → ℕ → ℕ) (ends : List FiberEnd) (inner old words : List ℕ) (at start : ℕ) : Type 0 where
  pub long : length words ≡ length old
  pub rises : Rises start (drop at ends)
  pub whole : last_end start (drop at ends) ≡ length inner
  pub left : drop start words ≡ drop start old
  pub made : take start words ++ made_along g start (drop at ends) (drop start inner)
      (drop start old) ≡ made_along g 0 ends inner old

pub answered_none : (g : ℕ → ℕ → ℕ → ℕ) (ends : List FiberEnd) (inner old : List ℕ) → AreFlat ends inner old
    → AreAnswered g ends inner old old 0 0
answered_none g ends inner old flat = let whole = flat.whole in record {
  long = refl;
  rises = flat.rises;
  whole = omega arith;
  left = refl;
  made = refl;
}

-- where the next fiber ends
pub record IsNext (start end count : ℕ) : Type 0 where
  pub rises : start ≤ end
  pub inside : end ≤ count

pub next_answered : (g : ℕ → ℕ → ℕ → ℕ) (ends : List FiberEnd) (inner old words : List ℕ) (at start : ℕ) (r : FiberEnd)
    → AreAnswered g ends inner old words at start → at < length ends → r ≡ get_or ends at r
    → IsNext start r.end (length inner)
unfolding Rises last_end
next_answered g ends inner old words at start r h within is =
    let split : drop at ends ≡ r ∷ drop (at + 1) ends = drop_more ends at r within ∙ ap (λ (q : FiberEnd). q ∷ drop (at + 1) ends) (sym is) in
    let rises : Rises start (r ∷ drop (at + 1) ends) = subst (Rises start) split h.rises in
    let whole : last_end start (r ∷ drop (at + 1) ends) ≡ length inner = sym (ap (last_end start) split) ∙ h.whole in
    let first = rises.0 in
    let rest = rises_le r.end (drop (at + 1) ends) rises.1 in
    record {
      rises = omega arith;
      inside = omega arith;
    }

pub answered_more : (g : ℕ → ℕ → ℕ → ℕ) (ends : List FiberEnd) (inner old words : List ℕ) (at start : ℕ) (r : FiberEnd)
    (made : List ℕ) → AreAnswered g ends inner old words at start → at < length ends → r ≡ get_or ends at r
    → length old ≡ length inner
    → made ≡ zip_with (g r.outer) (slice_range inner start r.end) (slice_range words start r.end)
    → AreAnswered g ends inner old (put_mid start (r.end - start) words made) (at + 1) r.end
unfolding Rises last_end made_along
answered_more g ends inner old words at start r made h within is same made_is =
    let n = r.end - start in
    let rest = drop (at + 1) ends in
    let split : drop at ends ≡ r ∷ rest = drop_more ends at r within ∙ ap (λ (q : FiberEnd). q ∷ rest) (sym is) in
    let next = next_answered g ends inner old words at start r h within is in
    let up = next.rises in
    let inside = next.inside in
    let long = h.long in
    let rises : Rises start (r ∷ rest) = subst (Rises start) split h.rises in
    let whole : last_end start (r ∷ rest) ≡ length inner = sym (ap (last_end start) split) ∙ h.whole in
    let end : start + n ≡ r.end = omega arith in
    let made_old : made ≡ zip_with (g r.outer) (take n (drop start inner)) (take n (drop start old)) = made_is ∙ ap (λ ws. zip_with (g r.outer) (take n (drop start inner)) (take n ws)) h.left in
    let count : length made ≡ n = ap length made_old ∙ length_zipped (g r.outer) (take n (drop start inner)) (take n (drop start old)) (omega (arith, length-take n (drop start inner), length-take n (drop start old), length-drop start inner, length-drop start old)) ∙ omega (arith, length-take n (drop start inner), length-drop start inner) in
    let front : take r.end (put_mid start n words made) ≡ take start words ++ made = take-put_mid start n words made r.end (omega arith) (omega arith) in
    let back : drop r.end (put_mid start n words made) ≡ drop r.end words = drop-put_mid start n words made r.end (omega arith) (omega arith) count in
    let past : (xs : List ℕ) → drop n (drop start xs) ≡ drop r.end xs = λ xs. drop-drop n start xs ∙ ap (λ k. drop k xs) end in
    let left_over : made_along g start (drop at ends) (drop start inner) (drop start old) ≡ made ++ made_along g r.end rest (drop r.end inner) (drop r.end old) =
    ap (λ es. made_along g start es (drop start inner) (drop start old)) split
    ∙ ap (λ xs. xs ++ made_along g r.end rest (drop n (drop start inner)) (drop n (drop start old))) (sym made_old)
    ∙ ap (λ cs. made ++ made_along g r.end rest cs (drop n (drop start old))) (past inner)
    ∙ ap (λ ws. made ++ made_along g r.end rest (drop r.end inner) ws) (past old) in
    record {
      long =
          ap length (sym (take-append-drop r.end (put_mid start n words made))) ∙ ap (λ xs. length (xs ++ drop r.end (put_mid start n words made))) front ∙ ap (λ ys. length ((take start words ++ made) ++ ys)) back
          ∙ omega (arith, length-append (take start words ++ made) (drop r.end words), length-append (take start words) made, length-take start words, length-drop r.end words);
      rises = rises.1;
      whole = whole;
      left = back ∙ sym (past words) ∙ ap (drop n) h.left ∙ past old;
      made =
          ap (λ xs. xs ++ made_along g r.end rest (drop r.end inner) (drop r.end old)) front
          ∙ append_assoc (take start words) made (made_along g r.end rest (drop r.end inner) (drop r.end old))
          ∙ ap (λ xs. take start words ++ xs) (sym left_over) ∙ h.made;
    }

pub answered_all : (g : ℕ → ℕ → ℕ → ℕ) (ends : List FiberEnd) (inner old words : List ℕ) (at start : ℕ)
    → AreAnswered g ends inner old words at start → AreFlat ends inner old → length ends ≤ at
    → entries_from 0 ends inner words ≡ mapped g (entries_from 0 ends inner old)
unfolding made_along last_end
answered_all g ends inner old words at start h flat all =
    let none = drop_all at ends all in
    let whole : start ≡ length inner = sym (ap (last_end start) none) ∙ h.whole in
    let same = flat.same_length in
    let long = h.long in
    let is : words ≡ made_along g 0 ends inner old =
    sym (append-nil words) ∙ ap (λ xs. xs ++ []) (sym (take_all start words (omega arith))) ∙ ap (λ es. take start words ++ made_along g start es (drop start inner) (drop start old)) (sym none) ∙ h.made in
    ap (entries_from 0 ends inner) is ∙ made_entries g 0 ends inner old (record { same_length = same; rises = flat.rises; whole = flat.whole; apart = flat.apart })
