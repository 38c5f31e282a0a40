mod Climbing
