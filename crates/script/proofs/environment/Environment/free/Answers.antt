-- The name is taken away, and its object, which is there, is freed.
use Rattle.std.proofs.Common.{◌≡◌, ℕ, arith, cond, inl, List, None, Option, rules, Some}
use Rattle.std.specs.HashMap.{get_by_text}
use Rattle.std.specs.Str.{bytes_eq}
use Rattle.std.proofs.lemmas.Map.Text.{hash_map_updates_text}
use Rattle.calls.specs.declared.obj.Obj.{Obj}
use Rattle.model.specs.declared.call.Act.TheVariants.{Free}
use Rattle.model.specs.declared.call.Call.TheVariants.{On}
use Rattle.script.proofs.FreeLaws.{fault-unnamed, freed-after, freed-distinct, freed-ends, freed-there, unnamed-same}
use Rattle.script.proofs.NameLaws.{count-left}
use Rattle.script.proofs.ReplyLaws.{made_after-most}
use Rattle.script.specs.Named.{number_in}
use Rattle.session.specs.Performed.{count_in, environment_of, state_of}
use Rattle.script.proofs.environment.Environment.free.Goals as goal

pub returns-in_default : goal.returns-in_default
returns-in_default g c =
    let names = c.args.self.now in
    let none : number_in names c.args.name.now ≡ None = search rules in
    let gone : (q : List ℕ) → get_by_text c.remove.new.self q ≡ cond (bytes_eq c.args.name.now q) None (get_by_text names.numbers q) =
    hash_map_updates_text c.args.name.now names.numbers c.remove.new.self _ c.remove.ensures.updates in
    record {
      ends = inl (inl (
        fault-unnamed (number_in names) (environment_of names.session) c.args.name.now none,
        unnamed-same (number_in names) (λ name. get_by_text c.remove.new.self name) c.args.name.now none gone (state_of names.session),
      ));
      made = omega arith;
    }

pub invariant_of-self-2 : goal.invariant_of-self-2
invariant_of-self-2 g c =
    let names = c.args.self.now in
    let s = state_of names.session in
    let o = c.in-Some.object in
    let new : List ℕ → Option Obj = λ name. get_by_text c.remove.new.self name in
    let is : number_in names c.args.name.now ≡ Some o = search rules in
    let gone : (q : List ℕ) → get_by_text c.remove.new.self q ≡ cond (bytes_eq c.args.name.now q) None (get_by_text names.numbers q) =
    hash_map_updates_text c.args.name.now names.numbers c.remove.new.self _ c.remove.ensures.updates in
    let left = freed-after (number_in names) new s c.args.name.now o names.distinct is gone (state_of c.free.new.self) (count_in names.session) c.free.result (names.there c.args.name.now o is) c.free.ensures.there c.free.ensures.performed.ends in
    record {
      distinct = freed-distinct (number_in names) new s c.args.name.now o names.distinct is gone;
      there = freed-there (number_in names) new s c.args.name.now o names.distinct is gone names.there (environment_of c.free.new.self) left;
    }

pub returns : goal.returns
returns g c =
    let names = c.args.self.now in
    let s = state_of names.session in
    let o = c.in-Some.object in
    let is : number_in names c.args.name.now ≡ Some o = search rules in
    let gone : (q : List ℕ) → get_by_text c.remove.new.self q ≡ cond (bytes_eq c.args.name.now q) None (get_by_text names.numbers q) =
    hash_map_updates_text c.args.name.now names.numbers c.remove.new.self _ c.remove.ensures.updates in
    record {
      ends = freed-ends (number_in names) (λ name. get_by_text c.remove.new.self name) s c.args.name.now o names.distinct is gone (state_of c.free.new.self) (count_in names.session) c.free.result (names.there c.args.name.now o is) c.free.ensures.there
          (count-left names.session c.requires) c.free.ensures.performed.ends;
      made = rw c.free.ensures.performed.made (made_after-most names.session c.free.result (On o Free));
    }
