-- The script of a session, line by line.
use Rattle.std.specs.Prelude.{ℕ, List, ◌++◌, codes}

unfoldable pub script : List ℕ
script =
    codes "c0 open n0\n" ++ (
    codes "c0 size n0 16777216\n" ++ (
    codes "c0 section n0 0 0 1 0=00/ff/00\n" ++ (
    codes "c1 open n1\n" ++ (
    codes "c1 size n1 16777216\n" ++ (
    codes "c1 section n1 512 0 1 0=42/ff/00\n" ++ (
    codes "c2 open n2\n" ++ (
    codes "c2 size n2 16777216\n" ++ (
    codes "c2 pes n2 256 frontend tap 1 0\n" ++ (
    codes "c3 open n3\n" ++ (
    codes "c3 size n3 16777216\n" ++ (
    codes "c3 pes n3 257 frontend tap 0 0\n" ++ (
    codes "c4 open n4\n" ++ (
    codes "c4 pes n4 256 frontend ts_tap 20 0\n" ++ (
    codes "c5 open n5\n" ++ (
    codes "c5 pes n5 257 frontend ts_tap 20 0\n" ++ (
    codes "c6 open dvr\n" ++ (
    codes "c6 size dvr 16777216\n" ++ (
    codes "c7 open n7\n" ++ (
    codes "c7 size n7 16777216\n" ++ (
    codes "c7 pes n7 0 frontend tsdemux_tap 20 0\n" ++ (
    codes "c7 add n7 512\n" ++ (
    codes "c0 start n0\n" ++ (
    codes "c1 start n1\n" ++ (
    codes "c2 start n2\n" ++ (
    codes "c3 start n3\n" ++ (
    codes "c4 start n4\n" ++ (
    codes "c5 start n5\n" ++ (
    codes "c7 start n7\n" ++ (
    codes "c0 drain n0 4096\n" ++ (
    codes "c1 drain n1 4096\n" ++ (
    codes "c2 drain n2 65536\n" ++ (
    codes "c3 drain n3 65536\n" ++ (
    codes "c6 drain dvr 65536\n" ++ (
    codes "c7 drain n7 65536\n" ++ (
    codes "stream\n")))))))))))))))))))))))))))))))))))
