-- One more file, and the others as before.
use Rattle.std.proofs.Common.{◌≡◌, ℕ, cond, List, Option, Some, inl, inr, is_some, None, refl, rules, subst, sym, true, ◌∙◌}
use Rattle.std.specs.Option.{option_and_then, option_map}
use Rattle.std.specs.Str.{bytes_eq}
use Rattle.std.proofs.lemmas.Bool.{cases_Bool}
use Rattle.std.proofs.lemmas.Map.Text.{btree_map_updates_str}
use Rattle.std.proofs.lemmas.Slice.Eq.{bytes_eq-Decides}
use Rattle.gbrun.specs.Known.{IsFile}
use Rattle.gbrun.proofs.loaded.Loaded.add.Goals as goal

held_more : {T : Type 0} (items : T → List ℕ) (content : List ℕ → Option (List ℕ)) (key name : List ℕ)
    (bytes : Option T) (before now : Option (Option T))
    → now ≡ cond (bytes_eq key name) (Some bytes) before → IsFile (content key) (option_map items bytes)
    → IsFile (content name) (option_and_then (λ b. option_map items b) before)
    → IsFile (content name) (option_and_then (λ b. option_map items b) now)
held_more items content key name bytes before now is new old = elim (cases_Bool (bytes_eq key name)) [
  | inl same ↦
      let one : key ≡ name = (bytes_eq-Decides key name).0 same in
      rw (is, same) (rw one at new)
  | inr apart ↦ rw (is, apart) old
]

mapped_is_some : {T U : Type 0} (f : T → U) (o : Option T) → is_some (option_map f o) ≡ is_some o
mapped_is_some f None = refl
mapped_is_some f (Some t) = refl

tried_more : {T : Type 0} (items : T → List ℕ) (readable : List ℕ → Type 0) (key name : List ℕ) (bytes : Option T)
    (before now : Option (Option T))
    → now ≡ cond (bytes_eq key name) (Some bytes) before → (readable key → is_some bytes ≡ true)
    → (is_some before ≡ true → readable name → is_some (option_and_then (λ b. option_map items b) before) ≡ true)
    → is_some now ≡ true → readable name → is_some (option_and_then (λ b. option_map items b) now) ≡ true
tried_more items readable key name bytes before now is new old tried can = elim (cases_Bool (bytes_eq key name)) [
  | inl same ↦
      let one : key ≡ name = (bytes_eq-Decides key name).0 same in
      rw (is, same) (mapped_is_some items bytes ∙ new (subst readable (sym one) can))
  | inr apart ↦ rw (is, apart) (old (rw (is, apart) at tried) can)
]

kept_more : {T : Type 0} (key name : List ℕ) (bytes : Option T) (before now : Option (Option T))
    → now ≡ cond (bytes_eq key name) (Some bytes) before → is_some before ≡ true → is_some now ≡ true
kept_more key name bytes before now is there = elim (cases_Bool (bytes_eq key name)) [
  | inl same ↦ rw (is, same) refl
  | inr apart ↦ rw (is, apart) there
]

added_now : {T : Type 0} (key : List ℕ) (bytes : Option T) (before now : Option (Option T))
    → now ≡ cond (bytes_eq key key) (Some bytes) before → is_some now ≡ true
added_now key bytes before now is = rw (is, (bytes_eq-Decides key key).1 refl) refl

pub returns-clause-files : goal.returns-clause-files
returns-clause-files g c name =
    let key : c.as_bytes-2.result.now ≡ c.args.name.now = search rules in
    let updates = btree_map_updates_str c.as_bytes-2.result.now c.args.self.now.by_name c.insert.new.self (Some c.in_ok-bytes.bytes) c.in_ok-insert.ensures.updates name in
    held_more (λ bytes. bytes.items) (g.F.FileSource.content c.args.files.now) c.args.name.now name c.in_ok-bytes.bytes _ _ (rw key at updates) c.in_ok-bytes.ensures.file (c.requires.files name)

pub returns-clause-tried : goal.returns-clause-tried
returns-clause-tried g c name =
    let key : c.as_bytes-2.result.now ≡ c.args.name.now = search rules in
    let updates = btree_map_updates_str c.as_bytes-2.result.now c.args.self.now.by_name c.insert.new.self (Some c.in_ok-bytes.bytes) c.in_ok-insert.ensures.updates name in
    tried_more (λ bytes. bytes.items) (g.F.FileSource.readable c.args.files.now) c.args.name.now name c.in_ok-bytes.bytes _ _ (rw key at updates) c.in_ok-bytes.ensures.readable (c.requires.tried name)

pub returns-clause-kept : goal.returns-clause-kept
returns-clause-kept g c other =
    let key : c.as_bytes-2.result.now ≡ c.args.name.now = search rules in
    let updates = btree_map_updates_str c.as_bytes-2.result.now c.args.self.now.by_name c.insert.new.self (Some c.in_ok-bytes.bytes) c.in_ok-insert.ensures.updates other in
    kept_more c.args.name.now other c.in_ok-bytes.bytes _ _ (rw key at updates)

pub returns-clause-added : goal.returns-clause-added
returns-clause-added g c =
    let key : c.as_bytes-2.result.now ≡ c.args.name.now = search rules in
    let updates = btree_map_updates_str c.as_bytes-2.result.now c.args.self.now.by_name c.insert.new.self (Some c.in_ok-bytes.bytes) c.in_ok-insert.ensures.updates c.args.name.now in
    added_now c.args.name.now c.in_ok-bytes.bytes _ _ (rw key at updates)
