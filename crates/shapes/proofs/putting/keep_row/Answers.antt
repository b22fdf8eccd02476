use Rattle.std.proofs.Common.{false, sym}
use Rattle.shapes.proofs.SideLaws.{listed_all, listed_none, ok_kept, ok_whole}
use Rattle.shapes.proofs.putting.keep_row.Goals as goal

pub returns-in_default : goal.returns-in_default
returns-in_default c =
    let row = c.args.row in
    let put = rw c.is_on.ensures at c.put_if.ensures in
    ok_whole row.index c.args.named.now c.args.inside c.names-is_named.result row.cols.now row.words.now c.args.lists.now c.put_if.new.lists c.put_if.result
    (λ rows cols named m n less j inside. listed_all m n row.index j rows cols c.names-is_named.result (rw c.in_default.is at named.col_members) (c.names-is_named.ensures rows m named.row_members less) inside) put

pub returns-then-not-is_named : goal.returns-then-not-is_named
returns-then-not-is_named c =
    let row = c.args.row in
    let put = rw c.is_on-then-not-is_named.ensures at c.put_if-then-not-is_named.ensures in
    ok_whole row.index c.args.named.now c.args.inside false row.cols.now row.words.now c.args.lists.now c.put_if-then-not-is_named.new.lists c.put_if-then-not-is_named.result
    (λ rows cols named m n less j inside. listed_none m n row.index j rows cols (sym (c.if-not-is_named.ensures rows m named.row_members less))) put

pub returns : goal.returns
returns c =
    let row = c.args.row in
    ok_kept row.index c.args.named.now c.args.inside c.in-Some.members.sorted.now row.cols.now row.words.now c.args.lists.now c.keep_words.new.lists c.close.new.self c.close.result
    (λ rows cols named m less. sym (c.if-not-is_named.ensures rows m named.row_members less)) (λ rows cols named. rw c.in-Some.is at named.col_members) c.in_ok-keep_words.ensures c.close.ensures.inner c.close.ensures.words c.close.ensures.ends
